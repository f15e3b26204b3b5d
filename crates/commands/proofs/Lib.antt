mod ReplayFaults
mod OneRankOrder
mod Replayed
pub mod ReplayAccepting
pub mod ReplayLaws
pub mod ReplayStages
mod RiseFallAccepting
pub mod RiseFallReplayLaws
pub mod RiseFallStages
mod RiseFallTexts
mod SameDelays
pub mod ScanAccepting
pub mod ScanLaws
pub mod ScanStages
mod TestCounts
pub mod AgreeingDelays
pub mod BoundsLaws
pub mod BoundsStages
pub mod CheckLaws
pub mod CompactLaws
pub mod CompactLeft
pub mod CompactStages
pub mod CheckStages
pub mod CheckExactly
pub mod OneRun
pub mod SpelledRuns
pub mod FewLines
mod FewListed
pub mod FirstWithout
pub mod ChainStages
pub mod FrontStages
pub mod InputStages
pub mod RunInputStages
pub mod InputsJudged
pub mod ListedStages
pub mod Printed
pub mod Products
pub mod SpelledTests
pub mod StageReads
pub mod InputFaults
pub mod GenLaws
pub mod GenStages
pub mod GenTexts
pub mod GradedLeft
pub mod GradedPasses
pub mod GradedStages
pub mod KeptTests
pub mod MakeLaws
pub mod ModeRules
pub mod Performing
pub mod AskedNames
pub mod AskedRuns
pub mod FilesLeft
pub mod GenLeft
pub mod GenThenCheck
pub mod GenThenReplay
pub mod GenThenRiseFall
pub mod GoodTexts
pub mod NameBounds
mod NumberedLines
pub mod PathLengths
pub mod ProofsBound
pub mod ReportBound
pub mod RunCounts
pub mod TestsBound
pub mod TextBounds
pub mod AskedLaws
