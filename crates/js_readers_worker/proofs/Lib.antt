mod Runs
mod Polls
