-- `Bits`: the order of distances is that of their bits. `Order`: `before` is a strict total order.
pub mod Bits
pub mod Order
