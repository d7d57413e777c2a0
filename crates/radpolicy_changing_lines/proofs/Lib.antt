mod Gathering
mod LastSteps
mod Sameness
