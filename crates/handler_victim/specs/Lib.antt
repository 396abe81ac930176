pub mod Victim
pub mod VictimParts
