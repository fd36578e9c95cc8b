mod Passes
mod Steps
mod Outcomes
mod Middles
