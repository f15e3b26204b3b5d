mod LinkedPairs
mod PathOrder
mod PathSteps
mod SidesJudged
