pub mod AnswerLemmas
pub mod SessionLemmas
pub mod CountLemmas
pub mod ExchangeLemmas
pub mod TurnLemmas
pub mod ConversationLemmas
pub mod OneRowLemmas
