pub mod ScalarForm
