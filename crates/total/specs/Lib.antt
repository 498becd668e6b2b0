pub mod Books
pub mod Counts
pub mod Outputs
pub mod Serial
pub mod Spans
pub mod Numbers
pub mod SpansLemmas
pub mod SpanTexts
