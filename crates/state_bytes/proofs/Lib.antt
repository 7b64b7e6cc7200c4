pub mod ReadLaws
pub mod LayoutLaws
pub mod WholeLaws
mod OnwardLaws
pub mod QuietLaws
