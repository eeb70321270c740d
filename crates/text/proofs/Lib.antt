pub mod WordLaws
pub mod ScanLaws
pub mod ReadLaws
pub mod ParseLaws
pub mod WholeLaws
