pub mod Pipelines
