pub mod WriterLaws
pub mod RoundTrip
