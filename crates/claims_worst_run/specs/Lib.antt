pub mod WorstRun
