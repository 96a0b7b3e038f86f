pub mod ReadingLemmas
pub mod FeedingLemmas
pub mod MessageLemmas
pub mod ReplyLemmas
