pub mod FormLaws
pub mod PutLaws
