mod Outcomes
mod MovingObjects
