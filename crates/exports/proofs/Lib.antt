-- How each answer is told.
mod Telling
