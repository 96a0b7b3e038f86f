pub mod Plans
pub mod Cuts
pub mod Pieces
pub mod Compactions
pub mod PlanLaws
pub mod CutLaws
pub mod CompactionLaws
