pub mod Privileges
