pub mod JsonTexts
pub mod TestLines
