-- Every row holds, by computing; the test of sound states decides soundness.
pub mod Trials
pub mod PortionTrials
pub mod WaitingTrials
pub mod SoundTrials
pub mod Decided
