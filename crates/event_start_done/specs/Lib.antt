pub mod StartDone
pub mod StartDoneParts
