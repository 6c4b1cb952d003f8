-- What the other crates cite of the process: of any marks Theorems, of a sheet's Sheet and Schedule, and here of marks in the order of rank.
pub use Rattle.elimination.proofs.Lemmas.RankOrder.{visited, all_settled}
