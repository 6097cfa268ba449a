-- Copy writes, a device whose power may go within one, and mending as copy writes.
pub mod Copies
pub mod Device
pub mod Mending
