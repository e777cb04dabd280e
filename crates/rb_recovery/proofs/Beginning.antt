pub mod SomeCode
