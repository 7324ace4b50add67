mod Parts
mod Plain
mod Wide
mod Lists
mod Exact
mod Codes
