-- To be believed: Zoom, which zooms are taken; Living, who lives at one; Printed, the removal zoom that is printed. To be used: Laws.
-- Laws, lemmas and theorems stand in proofs/.
pub mod Zoom
pub mod Living
pub mod Printed
