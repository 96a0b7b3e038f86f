pub mod PlanLemmas
pub mod CutLemmas
pub mod ApartLemmas
pub mod PartLemmas
pub mod PieceLemmas
pub mod CompactionLemmas
pub mod CompactionExample
pub mod PlannedLemmas
