pub use Rattle.argus_core.proofs.Crossing as GuardianCrossing
pub use Rattle.argus_sharing.proofs.Crossing
pub use Rattle.argus_resume.proofs.Crossing as ResumingCrossing
