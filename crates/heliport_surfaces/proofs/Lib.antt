pub mod PlaceFacts
pub mod PadSizes
pub mod Corners
pub mod NoticeFacts
pub mod PadFacts
pub mod NoticeReach
pub mod AreaFacts
