pub mod Certificate
pub mod CoefficientRows
pub mod BlockSymbols
pub mod InFile
pub mod CertificateReading
pub mod Converting
pub mod ConvertingBlocks
