mod Prefixes
mod Appended
