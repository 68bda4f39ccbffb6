pub mod NoTable
