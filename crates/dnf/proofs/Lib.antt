pub mod FindLaws
pub mod FormLaws
pub mod JoinLaws
pub mod NormalLaws
pub mod PairLaws
