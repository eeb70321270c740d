pub mod ImplicationLaws
