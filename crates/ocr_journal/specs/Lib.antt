pub mod EntryText
pub mod JournalText
pub mod Phrase
