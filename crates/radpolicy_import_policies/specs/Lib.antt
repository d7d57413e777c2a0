pub mod Imports
pub mod InitialLists
pub mod KeptNames
pub mod OriginTexts
pub mod Origins
pub mod PrintedConditions
pub mod Statements
pub mod internal
