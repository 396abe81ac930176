pub mod AdmitDeliverDie
pub mod AdmitDeliverDieParts
