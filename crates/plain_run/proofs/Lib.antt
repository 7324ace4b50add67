mod Answered
mod Calling
mod Serving
mod Resuming
