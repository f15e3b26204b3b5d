pub mod CsvRows
pub mod PlainTexts
pub mod StepTexts
pub mod VerdictCounts
pub mod KnownTexts
pub mod ObservedNames
pub mod KnownTests
pub mod TestLines
mod TestHeads
pub mod WholeTests
pub mod TestFiles
pub mod ProofLines
pub mod WholeProofs
pub mod ProofFiles
pub mod Versions
mod ProofHeads
mod ReportVerdicts
mod ReportNames
mod ReportSteps
mod ReportRises
mod ReportLines
mod ReportTurns
pub mod ReportFiles
pub mod ReportOnce
