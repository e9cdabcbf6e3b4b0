pub mod StoredLaws
