mod Relisting
mod Staying
