mod Extents
