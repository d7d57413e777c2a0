pub mod ShownParts
