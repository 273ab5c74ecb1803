pub mod Dating
pub mod Refusing
pub mod Lettering
pub mod Ended
pub mod OneWhole
pub mod LeftOut
