pub mod Contacts
pub mod Rooms
pub mod Printed
pub mod Clearance
pub mod Laws
pub mod inner
