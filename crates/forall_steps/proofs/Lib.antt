pub mod ForallLaws
