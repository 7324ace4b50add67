pub mod SoundScopes
pub mod MeantVisits
pub mod MeantForms
pub mod Laws
