pub mod EnforceableLaws
