pub mod FrameLemmas
pub mod JournalLemmas
pub mod OpeningLemmas
pub mod PhaseLemmas
pub mod CrashLemmas
pub mod StandingLemmas
pub mod PhaseCalls
