pub mod TextLaws
pub mod LimitLaws
