pub mod DrawFacts
pub mod PointFacts
pub mod NameFacts
pub mod DayFacts
pub mod ActFacts
pub mod CourseFacts
pub mod DrawingFacts
pub mod TallyFacts
