mod Combining
mod Converting
pub mod LawProofs
mod Places
mod PlaneAnswers
mod PlaneLists
pub mod Rising
mod RunLists
mod RunPush
mod RunSearch
mod Settling
mod Spans
mod Stretching
