pub mod CertificateText
pub mod Examples
pub mod Why
pub mod inside
