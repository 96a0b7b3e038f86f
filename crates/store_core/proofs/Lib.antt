pub mod RangeLemmas
pub mod ShownLemmas
pub mod CallerLemmas
pub mod StackLemmas
pub mod NumberLemmas
pub mod GrownLemmas
pub mod PlanningLemmas
pub mod DraftLemmas
pub mod CountLemmas
pub mod EventLemmas
pub mod RunLemmas
pub mod SettledLemmas
pub mod ShelfLemmas
pub mod SegmentLemmas
mod EventExample
