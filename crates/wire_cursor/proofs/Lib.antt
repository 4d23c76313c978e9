pub mod ShapeFacts
pub mod ShapeLaws
pub mod ExitFacts
pub mod GroupFacts
