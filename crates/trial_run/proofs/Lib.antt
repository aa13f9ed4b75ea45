mod Granting
mod TrialOffice
mod Trying
