pub mod Lists
pub mod SpellingLemmas
pub mod WordLemmas
