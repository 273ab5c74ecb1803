pub mod FeatureLines
pub mod LinesWritten
